mod NumberLemmas
mod PageLemmas
mod PrintedLemmas
mod ScreenLemmas
mod Steps
mod TimeLemmas
