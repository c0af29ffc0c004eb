pub mod NeedLists
