pub mod Events
pub mod Reports
pub mod Trace
pub mod PlacedOrder
pub mod Made
pub mod Follows
