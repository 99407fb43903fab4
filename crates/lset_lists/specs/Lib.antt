pub mod Tables
pub mod Headline
