pub mod ValueKeys
pub mod GoodRows
pub mod Named
pub mod Gone
