pub mod Keywords
pub mod FunctionText
pub mod RuleText
pub mod Steps
pub mod Statements
