-- Fronts: of what several calls write. Turning: what each step of a turn leads to. Smooth: how a program ends whose core meets no
-- fault.
pub mod Fronts
pub mod Turning
pub mod Smooth
