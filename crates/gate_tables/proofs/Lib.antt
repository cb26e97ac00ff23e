pub mod MonthCosts
