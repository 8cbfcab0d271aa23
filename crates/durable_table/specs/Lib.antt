pub mod Changes
pub mod Transactions
