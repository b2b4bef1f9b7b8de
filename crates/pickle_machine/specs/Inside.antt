-- What proofs and the contracts of private functions cite. Besides, a `StepRecord` shows the parts of its effect (`Records`),
-- and a `Stack` its sections (`Cells`).
pub mod Cells
pub mod Records
pub mod Memo
pub mod Slots
pub mod Origins
pub mod LongOps
