pub mod Reading
pub mod ReadingExpressions
pub mod ReadingLists
pub mod ReadingStatements
pub mod ReadingModules
