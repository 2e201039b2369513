pub mod SessionParts
pub mod Sessions
pub mod Requests
pub mod Refusals
pub mod PlanParts
pub mod Plans
pub mod Seen
pub mod Undone
