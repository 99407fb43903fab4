pub mod SecondWalks
mod FittingReplies
