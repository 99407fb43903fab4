mod ProgramLaws
