-- What proofs and the contracts of private functions cite. Besides, `arg_size` says what is at the front of bytes (`Front`), `length_bytes`
-- where loaders read a length (`pickle_lenient`), `kept_bytes` is what an `Op` shows of its argument, and `parts_of` and `made_changes` what
-- an `Object` shows of what is kept.
pub mod Content
pub mod Decimal
pub mod ArgBytes
pub mod Sizes
