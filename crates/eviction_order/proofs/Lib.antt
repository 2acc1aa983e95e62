pub mod Orders
pub mod SomeOrders
pub mod KeyLists
pub mod Criteria
