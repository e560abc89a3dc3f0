pub mod Given
pub mod Forms
pub mod Rules
pub mod Reading
pub mod PlanText
