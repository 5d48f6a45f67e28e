pub mod Charts
pub mod SmallCharts
