pub mod Pictures
