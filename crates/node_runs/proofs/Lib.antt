pub mod Pictures
pub mod Sums
pub mod Kernels
pub mod Fitting
pub mod Stamps
pub mod Beginning
