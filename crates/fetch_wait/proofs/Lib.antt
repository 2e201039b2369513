-- Chains: calls, and polls, in a row. LastCalls: what a poll gives, by its last call.
pub mod Chains
pub mod LastCalls
