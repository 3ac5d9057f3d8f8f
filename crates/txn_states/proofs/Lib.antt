pub mod NextWrites
