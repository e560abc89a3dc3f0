pub mod Told
pub mod ToldTokens
pub mod ToldExpressions
pub mod ToldLists
pub mod ToldStatements
pub mod ToldModules
pub mod Turns
