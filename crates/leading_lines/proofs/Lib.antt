pub mod Leading
mod Past
