-- TO BE BELIEVED, in this order: the promises of a load and a mark, the words of demand 3, and what it claims.
pub mod Desk
pub mod Calls
pub mod DemandThree
pub mod Unranked
