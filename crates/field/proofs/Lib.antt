pub mod XorLaws
pub mod SumLaws
pub mod TimesLaws
pub mod PowerLaws
pub mod LaidLaws
pub mod TableLaws
pub mod InverseLaws
pub mod FactorLaws
