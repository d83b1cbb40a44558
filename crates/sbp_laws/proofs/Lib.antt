mod Orders
mod Added
pub mod Parts
pub mod Going
mod OnceTries
mod OrderTries
mod ExecutionTries
mod StatusTries
mod AnswerTries
mod CarriedTries
mod CauseTries
mod JudgementTries
mod LoginTries
mod SentTries
mod MediaTries
mod ActionTries
mod RunsTries
mod BudgetTries
mod Forms
mod OthersTries
mod NamedTries
mod OwnTries
pub mod InTime
pub mod EachTurns
