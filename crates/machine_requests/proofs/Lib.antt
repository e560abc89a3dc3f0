pub mod Steps
pub mod Amid
pub mod Hearing
pub mod Beats
pub mod Outside
pub mod Rows
