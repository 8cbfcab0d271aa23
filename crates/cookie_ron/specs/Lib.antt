pub mod Views
pub mod Grammar
pub mod Printed
pub mod RonInput
pub mod ParsedRon
