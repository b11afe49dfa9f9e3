pub mod IfNames
