pub mod Optional
pub mod OptionalRead
pub mod HeartbeatRequest
pub mod HeartbeatReply
