-- Counting: what each move leaves of the counts.
pub mod Counting
-- Rounds: steps in a round never go.
pub mod Rounds
-- Goings: whether a step may go, by what is read of it.
pub mod Goings
-- Waits: links that wait for each other.
pub mod Waits
-- Readies: which steps may go behind a move.
pub mod Readies
-- Steadies: which links are ready, by what calls answer.
pub mod Steadies
-- Lessers: the lesser of two steps.
pub mod Lessers
-- Seeing: one tag more is seen.
pub mod Seeing
-- Running: what a merge keeps from move to move.
pub mod Running
-- Tellings: what opens the links.
pub mod Tellings
-- Orders: a merge keeps the orders of links and tapes.
pub mod Orders
-- Results: a merge that goes to its end gives a session.
pub mod Results
