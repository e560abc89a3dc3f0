pub mod StepsOfCalls
pub mod StepsOfMessages
pub mod StepsOfDeaths
pub mod Makes
pub mod Exits
pub mod Starts
pub mod Laws
