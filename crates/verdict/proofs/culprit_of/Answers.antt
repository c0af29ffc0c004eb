-- The fault of the number picks the case.
use Rattle.verdict.proofs.Steps.{culprit_steps}
use Rattle.verdict.proofs.culprit_of.Goals as goal

pub returns-in-Call : goal.returns-in-Call
returns-in-Call c =
    search culprit_steps depth 20

pub returns-in-ExerciseHead : goal.returns-in-ExerciseHead
returns-in-ExerciseHead c =
    search culprit_steps depth 20

pub returns-in-Record : goal.returns-in-Record
returns-in-Record c =
    search culprit_steps depth 20

pub returns-in-AnswerHead : goal.returns-in-AnswerHead
returns-in-AnswerHead c =
    search culprit_steps depth 20

pub returns-in-Place : goal.returns-in-Place
returns-in-Place c =
    search culprit_steps depth 20

pub returns-in-Lab : goal.returns-in-Lab
returns-in-Lab c =
    search culprit_steps depth 20
