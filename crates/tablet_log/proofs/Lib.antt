pub mod Listing
pub mod Unread
pub mod Order
pub mod Totals
pub mod Week
