pub mod Calendar
mod CalendarDays
mod EpochSeconds
mod Powers
