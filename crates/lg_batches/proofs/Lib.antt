pub mod StandstillLaws
