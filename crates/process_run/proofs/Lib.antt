pub mod Modules
pub mod Exchanges
pub mod Rules
pub mod Agenda
pub mod Versions
pub mod Numbers
