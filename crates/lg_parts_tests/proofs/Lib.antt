pub mod TimerCounts
