-- Lemmas.
mod Files
mod Stopped
mod FormLines
mod ReachLines
