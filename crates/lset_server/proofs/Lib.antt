pub mod BalanceKept
pub mod ServeLaws
