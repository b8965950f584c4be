-- Laws of the calendar's definitions, for this crate's proofs and for those of the crates above.
pub mod Rising
pub mod DayLaws
pub mod DateLaws
pub mod EasterLaws
pub mod HourLaws
pub mod MonthLaws
pub mod WeekLaws
pub mod PeakLoadLaws
