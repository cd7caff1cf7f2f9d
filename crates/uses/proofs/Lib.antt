mod HeadlineLemmas
mod OneAnswer
mod SettingLemmas
