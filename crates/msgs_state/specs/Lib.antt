pub mod StateBatch
pub mod StateMessage
pub mod InitializeRequest
pub mod ReadRequest
pub mod WriteRequest
pub mod DeleteRequest
pub mod StateReply
pub mod ReadReply
