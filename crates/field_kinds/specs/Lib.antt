pub mod KindOf
