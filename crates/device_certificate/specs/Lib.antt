pub mod Lines
pub mod Certificate
