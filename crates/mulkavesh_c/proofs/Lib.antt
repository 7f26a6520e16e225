mod AnswerLemmas
mod ChoiceLemmas
mod EditLemmas
mod QuestionLemmas
mod TextLemmas
