pub mod HeldBytes
pub mod Store
