pub mod Net
