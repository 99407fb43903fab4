mod StepsOfCall
mod ContainsRows
