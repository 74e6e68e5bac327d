-- raw literals stay raw, and others do not become raw
pub mod Raw
