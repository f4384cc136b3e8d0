pub mod Answers
pub mod Auction
pub mod Listing
pub mod Moves
pub mod Offers
pub mod Prices
