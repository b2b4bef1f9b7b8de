-- Lemmas of the laws.
pub mod Spans
pub mod Canonical
pub mod Decimals
pub mod Littles
pub mod Fronts
pub mod Hexes
pub mod Signs
pub mod Longs
pub mod Arguments
pub mod Notes
pub mod ItemLines
pub mod Wholes
pub mod Stays
pub mod Texts
pub mod Items
pub mod Listings
