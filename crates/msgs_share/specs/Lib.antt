pub mod ShareTopic
pub mod Nodes
pub mod ShareFetchRequest
pub mod ShareFetchReply
pub mod ShareAckRequest
pub mod ShareAckReply
