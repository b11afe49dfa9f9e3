pub mod Form
pub mod Window
