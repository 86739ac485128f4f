pub mod TestCases
