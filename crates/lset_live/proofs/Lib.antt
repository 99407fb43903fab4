pub mod GatheredRecords
pub mod ListsHandedOn
mod DatedRecords
mod CallsOfThread
mod PastCalls
mod OrderKeepsRecord
mod SeenExplained
mod FewSteps
mod Closing
pub mod Receipts
mod TypedReplies
mod KeysWalk
pub mod NewSeats
