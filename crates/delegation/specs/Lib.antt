pub mod Acceptances
pub mod Asking
pub mod JoinChecks
pub mod NamedJoins
pub mod NamedTrees
pub mod ScopesUnder
pub mod SharedScopes
pub mod TreeRules
