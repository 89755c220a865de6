pub mod ChallengeReadLaws
pub mod ChallengeRuleLaws
pub mod ChallengeWriteLaws
pub mod ChallengeLaws
pub mod NamedLaws
pub mod ResponseLaws
pub mod UnmaskLaws
pub mod UnmaskAnswerLaws
