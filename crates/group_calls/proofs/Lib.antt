-- MembersOwn: each group is told by the answers to its own questions.
pub mod MembersOwn
